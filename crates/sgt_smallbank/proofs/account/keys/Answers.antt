use Rattle.std.proofs.Common.{rules, arith, refl, sym, subst, ◌≡◌, true, false, Option, None, Some}
use Rattle.std.specs.Prelude.{◌↔◌, IsSome}
use Rattle.std.proofs.lemmas.Int.{to_z-of_z}
use mir.Syntax.{w64}
use Rattle.sgt_model.specs.Numbers.{IsValue}
use Rattle.sgt_smallbank.specs.Accounts.{IsInRange}
use Rattle.sgt_smallbank.specs.declared.account.Account.{Account}
use Rattle.sgt_smallbank.proofs.account.keys.Goals as goal

-- there are no keys if a number is not a value
no_keys : {A : Type 0} (account : Account) (result : Option A) → result ≡ None → (IsInRange account → false ≡ true)
    → IsSome result ↔ IsInRange account
no_keys account None is none = (λ some. absurd (cc), none)
no_keys account (Some keys) is none = absurd (cc)

pub returns-then-is_value-2-clause-in_range : goal.returns-then-is_value-2-clause-in_range
returns-then-is_value-2-clause-in_range c = (
  λ t. record {
    name = subst IsValue (to_z-of_z w64 c.args.account.now.name (search rules)) (c.in_ok-name.ensures.some.0 refl).1;
    customer = subst IsValue (to_z-of_z w64 c.args.account.now.customer (search rules)) (c.in_ok-saving.ensures.some.0 refl).1;
    saving = subst IsValue (to_z-of_z w64 c.args.account.now.saving (search rules)) (c.if-is_value.ensures.fact.0 refl);
    checking = subst IsValue (to_z-of_z w64 c.args.account.now.checking (search rules)) (c.if-is_value-2.ensures.fact.0 refl);
  },
  λ v. refl,
)

pub returns-in_err-name-clause-in_range : goal.returns-in_err-name-clause-in_range
returns-in_err-name-clause-in_range c = no_keys c.args.account.now c.from_residual.result c.from_residual.ensures
    (λ range. c.in_err-name.ensures.some.1
    (omega arith, subst IsValue (sym (to_z-of_z w64 c.args.account.now.name (search rules))) range.name))

pub returns-in_err-saving-clause-in_range : goal.returns-in_err-saving-clause-in_range
returns-in_err-saving-clause-in_range c =
    no_keys c.args.account.now c.from_residual-in_err-saving.result c.from_residual-in_err-saving.ensures
    (λ range. c.in_err-saving.ensures.some.1
    (omega arith, subst IsValue (sym (to_z-of_z w64 c.args.account.now.customer (search rules))) range.customer))

pub returns-in_err-checking-clause-in_range : goal.returns-in_err-checking-clause-in_range
returns-in_err-checking-clause-in_range c =
    no_keys c.args.account.now c.from_residual-in_err-checking.result c.from_residual-in_err-checking.ensures
    (λ range. c.in_err-checking.ensures.some.1
    (omega arith, subst IsValue (sym (to_z-of_z w64 c.args.account.now.customer (search rules))) range.customer))
