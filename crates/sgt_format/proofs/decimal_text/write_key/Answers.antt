use Rattle.std.proofs.Common.{rules, arith, ◌≡◌, ◌++◌, refl, sym, drop}
use Rattle.std.specs.Fmt.{signed_decimal}
use Rattle.std.proofs.lemmas.Fmt.{decimal_digit}
use Rattle.sgt_format.proofs.decimal_text.write_key.Goals as goal

pub returns-clause-written : goal.returns-clause-written
returns-clause-written c =
    let number : drop c.write_signed-start.result c.write_signed-start.new.text
    ≡ signed_decimal c.args.key.now.1 ++ drop c.args.end c.args.text.now = search rules in
    rw (
      decimal_digit c.args.key.now.0 (omega (arith, c.table.ensures.value, c.table.ensures.few)),
      sym c.table.ensures.value,
      c.write_byte.ensures.written,
      c.write_byte-start.ensures.written,
      number,
    ) refl
