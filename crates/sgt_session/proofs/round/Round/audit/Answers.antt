use Rattle.std.proofs.Common.{◌≡◌, ℕ, List, [], ◌∷◌, ◌++◌, length, take, drop, set, get_or, refl, sym, ap, ◌∙◌, arith}
use Rattle.std.proofs.lemmas.Grind.{common_steps}
use Rattle.sgt_session.proofs.round.Round.audit.Goals as goal

-- an element that is set as it was
set_own : {X : Type 0} (xs : List X) (x : X) → x ≡ get_or xs 0 x → set xs 0 x ≡ xs
set_own [] x is = refl
set_own (y ∷ xs) x is = ap (λ z. z ∷ xs) is

-- a list to which all elements were written back
written_back : {X : Type 0} (xs ys : List X) (len : ℕ) → ys ≡ xs → len ≡ length xs → take len (ys ++ drop (length ys) xs) ≡ xs
written_back xs ys len same long = rw (same, long) (grind (arith, common_steps))

pub returns-clause-sessions : goal.returns-clause-sessions
returns-clause-sessions g c =
    let all = c.as_mut_slice-sessions.result.now in
    let first = c.index-sessions-0 in
    written_back c.args.sessions.now.items c.lend.new.sessions c.args.sessions.now.len
    (c.lend.ensures.sessions ∙ ap (set all 0) (c.no_part-none.ensures.same ∙ sym first.is) ∙ set_own all first.result first.is
    ∙ c.as_mut_slice-sessions.ensures.value) (omega (arith, c.args.sessions.now.ok.0))
