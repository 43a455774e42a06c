pub mod Fallen
pub mod RisingLists
