-- What is owed for events that are turned to a log is read as the steps of each, and then the event; no event has more steps than bytes.
use Rattle.std.proofs.Common.{◌≡◌, ℕ, suc, ◌+◌, ◌≤◌, ◌<◌, List, [], ◌∷◌, ◌++◌, length, map, refl, sym, ap, ◌∙◌, subst, arith, append_assoc, length-append}
use Rattle.mw_model.specs.Terms.Object.{Object}
use Rattle.mw_model.specs.Values.Truth.{Each}
use Rattle.mw_model.specs.Texts.Pieces.{InOrder, numbered}
use Rattle.mw_commands.specs.Commands.Flattening.{step_datum, IsStepLine, flat_event, OwesFlat}
use Rattle.mw_commands.proofs.WrittenRead.{datum_line_read}
use Rattle.mw_commands.proofs.StepLines.{Reads, steps_are_read}
use Rattle.mw_commands.proofs.FlatData.{steps_of_event}

abbrev pub steps_data : Object → List Object
steps_data e = let qs = steps_of_event e in map (step_datum qs) (numbered 1 qs)

abbrev pub flat_data : List Object → List Object
flat_data [] = []
flat_data (e ∷ es) = steps_data e ++ flat_event e ∷ flat_data es

pub flat_read : (es : List Object) (body last : List ℕ) → InOrder OwesFlat es body → Reads [] last → Reads (flat_data es) (body ++ last)
flat_read [] body last w r = subst (λ z. Reads [] (z ++ last)) (sym w) r
flat_read (e ∷ es) body last w r =
    let p = w.3 in
    let qs = steps_of_event e in
    let rest = w.1 ++ last in
    let event = datum_line_read (flat_event e) (flat_data es) p.1 rest p.4 (flat_read es w.1 last w.4 r) in
    let is : p.0 ++ (p.1 ++ rest) ≡ body ++ last =
    sym (append_assoc p.0 p.1 rest) ∙ (ap (λ z. z ++ rest) (sym p.2) ∙ (sym (append_assoc w.0 w.1 last) ∙ ap (λ z. z ++ last) (sym w.2))) in
    subst (Reads (flat_data (e ∷ es))) is (steps_are_read qs (numbered 1 qs) (flat_event e ∷ flat_data es) p.0 (p.1 ++ rest) p.3 event)

-- ---- lengths

numbered_length : (k : ℕ) (xs : List Object) → length (numbered k xs) ≡ length xs
numbered_length k [] = refl
numbered_length k (x ∷ xs) = ap suc (numbered_length (suc k) xs)

many_bytes : (qs : List Object) (nps : List (ℕ × Object)) (steps : List ℕ) → InOrder (IsStepLine qs) nps steps → length nps ≤ length steps
many_bytes qs [] steps w = omega arith
many_bytes qs (np ∷ nps) steps w =
    let h = many_bytes qs nps w.1 w.4 in
    let l = ap length w.3.2 in
    omega (arith, ap length w.2, length-append w.0 w.1, l)

pub no_more_steps : (m : ℕ) (es : List Object) (body : List ℕ) → InOrder OwesFlat es body → length body < m → Each (λ e. length (steps_of_event e) < m) es
no_more_steps m [] body w h = tt
no_more_steps m (e ∷ es) body w h =
    let p = w.3 in
    let qs = steps_of_event e in
    let whole : length body ≡ length w.0 + length w.1 = ap length w.2 ∙ length-append w.0 w.1 in
    let piece : length w.0 ≡ length p.0 + length p.1 = ap length p.2 ∙ length-append p.0 p.1 in
    let many = many_bytes qs (numbered 1 qs) p.0 p.3 in
    (omega (arith, numbered_length 1 qs), no_more_steps m es w.1 w.4 (omega arith))
