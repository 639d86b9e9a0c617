-- Looking on in the first part of a raw term that does not expand.
use Rattle.std.proofs.Common.{◌≡◌, ℕ, zero, suc, ◌+◌, ◌<◌, ◌≤◌, true, false, List, [], ◌∷◌, length, get_or, drop, map, Option, Some, None, is_some, refl, sym, ap, ◌∙◌, subst, arith}
use Rattle.std.proofs.lemmas.List.{drop_more}
use Rattle.std.specs.Option.{option_or}
use Rattle.mw_model.specs.Terms.Object.{Object}
use Rattle.mw_model.specs.Terms.Term.{Term, ArityTable}
use Rattle.mw_model.specs.Events.Expansion.{expand}
use Rattle.mw_heap.specs.Objects.{object_at}
use Rattle.mw_commands.specs.Commands.ExplanationTerms.{bad_raw}
use Rattle.mw_explain.specs.RawParts.{raw_parts, found_in, AreBefore, IsFirstBad, LeadsRaw}
use Rattle.mw_explain.proofs.LookingInRaw.{raw_passes, raw_shown, nothing_in, something_in}

pub before-at : (n : ℕ) (rs : List ℕ) (i r : ℕ) → AreBefore n rs → i < length rs → r ≡ get_or rs i r → r < n
before-at n rs i r h l e = subst (λ q. q < n) (sym e) (go rs i h l)
  where
    go : (rs : List ℕ) (i : ℕ) → AreBefore n rs → i < length rs → get_or rs i r < n
    go [] i h l = absurd (omega arith)
    go (q ∷ rs) zero h l = h.0
    go (q ∷ rs) (suc i) h l = go rs i h.1 (omega arith)

pub before-later : (n m : ℕ) (rs : List ℕ) → n ≤ m → AreBefore n rs → AreBefore m rs
before-later n m [] l h = tt
before-later n m (r ∷ rs) l h = (omega (arith, h.0, l), before-later n m rs l h.1)

pub no_term : (o : Option Term) → is_some o ≡ false → o ≡ None
no_term None h = refl
no_term (Some t) h = cc

module _ (A : ArityTable) (os : List Object) where
  abbrev at : ℕ → Object
  at r = object_at os r

  abbrev found : List ℕ → Option Object
  found ps = found_in (bad_raw A) (map at ps)

  module _ (ps : List ℕ) (i p : ℕ) (l : i < length ps) (e : p ≡ get_or ps i p) (same : found (drop i ps) ≡ found ps) where
    split : drop i ps ≡ p ∷ drop (i + 1) ps
    split = drop_more ps i p l ∙ ap (λ q. q ∷ drop (i + 1) ps) (sym e)

    pub part_passes : is_some (expand A (at p)) ≡ true → found (drop (i + 1) ps) ≡ found ps
    part_passes h = ap (λ o. option_or o (found (drop (i + 1) ps))) (sym (raw_passes A (at p) h)) ∙ (ap found (sym split) ∙ same)

    pub part_fails : is_some (expand A (at p)) ≡ false → IsFirstBad A os ps (Some p)
    part_fails h = (no_term (expand A (at p)) h, λ n b. before-at n ps i p b l e, sym same ∙ (ap found split ∙ raw_shown A (at p) (found (drop (i + 1) ps)) h))

  pub leads : (x : ℕ) (ps : List ℕ) (o : Option ℕ) → map at ps ≡ raw_parts A (at x) → AreBefore x ps → IsFirstBad A os ps o → expand A (at x) ≡ None → LeadsRaw A os x o
  leads x ps None m b h e = nothing_in A (at x) (ap is_some e) (ap (found_in (bad_raw A)) (sym m) ∙ h)
  leads x ps (Some p) m b h e = (something_in A (at x) (at p) (ap is_some e) (ap is_some h.0) (ap (found_in (bad_raw A)) (sym m) ∙ h.2), h.1 x b, h.0)
