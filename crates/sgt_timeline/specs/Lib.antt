pub mod Drawn
pub mod PictureText
