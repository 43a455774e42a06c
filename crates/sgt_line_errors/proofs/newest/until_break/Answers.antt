use Rattle.std.proofs.Common.{◌≡◌, ◌+◌, arith, false, refl, subst, take, []}
use Rattle.std.specs.Option.{option_map}
use Rattle.sgt_input.specs.Lines.{IsBreak, has_break}
use Rattle.sgt_input.proofs.Breaks.{break-following}
use Rattle.sgt_line_errors.proofs.newest.until_break.Goals as goal

pub returns-in-Some : goal.returns-in-Some
returns-in-Some c =
    let bytes = c.args.bytes.now in
    let at = subst (λ found. IsBreak bytes (option_map (λ n. 0 + n) found)) c.in-Some.is
    (break-following [] bytes c.memchr.result refl c.memchr.ensures) in
    let same : 0 + c.in-Some.place ≡ c.in-Some.place = omega arith in
    subst (λ n. has_break (take n bytes) ≡ false) same at.2

pub returns-in-None : goal.returns-in-None
returns-in-None c =
    subst (λ found. IsBreak c.args.bytes.now (option_map (λ n. 0 + n) found)) c.in-None.is
    (break-following [] c.args.bytes.now c.memchr.result refl c.memchr.ensures)
