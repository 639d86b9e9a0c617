-- A pair's text is its first byte, and then the text of its parts.
use Rattle.std.proofs.Common.{◌≡◌, ℕ, ◌+◌, List, [], ◌∷◌, ◌++◌, All, sym, ap, ◌∙◌, arith, append_assoc, Result, OnOk, Ok, Err}
use Rattle.std.proofs.lemmas.List.{append-nil}
use Rattle.std.proofs.lemmas.List.Elements.{All-push}
use Rattle.mw_model.specs.Terms.Object.{Object, Pair, weight}
use Rattle.mw_model.specs.Texts.Printing.{tail_text, text_of}
use Rattle.mw_heap.specs.Objects.{object_at, IsIn}
use Rattle.mw_print.specs.declared.part.Part.{Part}
use Rattle.mw_print.specs.declared.part.Part.TheVariants.{Text, Tail}
use Rattle.mw_print.specs.Parts.{part_text, parts_text, part_weight, parts_weight, IsPart, Writes}

-- two clauses on a success make a third
pub OnOk-both : {T E P Q R : Type 0} (r : Result T E) → OnOk r P → OnOk r Q → (P → Q → R) → OnOk r R
OnOk-both (Ok x) p q f = f p q
OnOk-both (Err e) p q f = tt

pub parts_text-push : (os : List Object) (ps : List Part) (p : Part) → parts_text os (ps ++ p ∷ []) ≡ part_text os p ++ parts_text os ps
parts_text-push os [] p = sym (append-nil (part_text os p))
parts_text-push os (q ∷ ps) p =
    ap (λ t. t ++ part_text os q) (parts_text-push os ps p) ∙ append_assoc (part_text os p) (parts_text os ps) (part_text os q)

pub parts_weight-push : (os : List Object) (ps : List Part) (p : Part) → parts_weight os (ps ++ p ∷ []) ≡ part_weight os p + parts_weight os ps
parts_weight-push os [] p = omega arith
parts_weight-push os (q ∷ ps) p = omega (arith, parts_weight-push os ps p)

-- a pair of the objects at a and d
module _ (os : List Object) (a d : ℕ) (first_in : IsIn os a) (rest_in : IsIn os d) where
  abbrev pub opened : List Part → List Part
  opened ps = (ps ++ Tail d ∷ []) ++ Text a ∷ []

  parts_text-opened : (ps : List Part) → parts_text os (opened ps) ≡ text_of (object_at os a) ++ (tail_text (object_at os d) ++ parts_text os ps)
  parts_text-opened ps =
      parts_text-push os (ps ++ Tail d ∷ []) (Text a) ∙ ap (λ t. text_of (object_at os a) ++ t) (parts_text-push os ps (Tail d))

  pub opens : (p : Part) (byte : ℕ) (ps new_ps : List Part) (old new : List ℕ) →
      part_text os p ≡ byte ∷ (text_of (object_at os a) ++ tail_text (object_at os d)) →
      part_weight os p ≡ weight (Pair (object_at os a) (object_at os d)) →
      All (IsPart os) ps → new_ps ≡ opened ps → new ≡ old ++ byte ∷ [] → Writes os p ps new_ps old new
  opens p byte ps new_ps old new t w all e f =
      let A = text_of (object_at os a) in let D = tail_text (object_at os d) in let P = parts_text os ps in record {
        text = rw (e, f, parts_text-opened ps, t) (append_assoc old (byte ∷ []) (A ++ (D ++ P)) ∙ ap (λ u. old ++ (byte ∷ u)) (sym (append_assoc A D P)));
        within = rw e (All-push (IsPart os) (ps ++ Tail d ∷ []) (Text a) (All-push (IsPart os) ps (Tail d) all rest_in) first_in);
        lighter = rw (e, w, parts_weight-push os (ps ++ Tail d ∷ []) (Text a), parts_weight-push os ps (Tail d)) (omega arith);
      }
