-- The formals and what they close decide.
use Rattle.std.proofs.Common.{◌≡◌, ℕ, Bool, true, false, ◌&&◌, cond, length, Result, Ok, Err, IfOk, Option, Some, None, sym, ap, ◌∙◌, option_map, subst}
use Rattle.mw_model.specs.Terms.Object.{Object, list3}
use Rattle.mw_model.specs.Terms.Reading.{names_of}
use Rattle.mw_model.specs.Terms.Term.{is_closed}
use Rattle.mw_heap.specs.Objects.{object_at}
use Rattle.mw_term.specs.Parts.{names_at, formals_of}
use Rattle.mw_term.proofs.Heads.{formals_are}
use Rattle.mw_term.proofs.FormalList.{length-names_at}
use Rattle.mw_translate.specs.Checked.{head_of}
use Rattle.mw_translate.proofs.calls.closing_formals.Goals as goal

-- the head and the count where the formals close the body
abbrev head_with : Object → Bool → ℕ → Option (Object × ℕ)
head_with x t n = cond t (Some (x, n)) None

counted : {E : Type 0} (x : Object) (n : ℕ) (t : Bool) (r : Result (Option ℕ) E) → IfOk r (λ o. o ≡ cond t (Some n) None) → IfOk r (λ o. head_with x t n ≡ option_map (λ m. (x, m)) o)
counted x n true (Ok o) h = ap (option_map (λ m. (x, m))) (sym h)
counted x n false (Ok o) h = ap (option_map (λ m. (x, m))) (sym h)
counted x n t (Err e) h = h

pub returns-in-Some-clause-count : goal.returns-in-Some-clause-count
returns-in-Some-clause-count c = λ l t h.
    let os = c.args.heap.now.objects in
    let xs = object_at os c.args.list in
    let b = object_at os c.args.body in
    let fs = c.in-Some.formals in
    let names = names_at os fs in
    let formals : formals_of xs ≡ Some names = sym c.in_ok-formals.ensures.formals ∙ ap (option_map (names_at os)) c.in-Some.is in
    let f = formals_are (names_of xs) names formals in
    let is : head_of l xs (names_of xs) t b ≡ head_with (list3 l xs b) (is_closed names t) (length fs) =
    ap (λ o. head_of l xs o t b) f.0 ∙ (ap (λ p. head_with (list3 l xs b) (p && is_closed names t) (length names)) f.1 ∙ ap (head_with (list3 l xs b) (is_closed names t)) (length-names_at os fs)) in
    subst (λ z. IfOk c.closing_count.result (λ o. z ≡ option_map (λ n. (list3 l xs b, n)) o)) (sym is) (counted (list3 l xs b) (length fs) (is_closed names t) c.closing_count.result (c.closing_count.ensures.count t h))
