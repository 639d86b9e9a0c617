-- The last line as it is written, part after part.
use Rattle.std.proofs.Common.{◌≡◌, ℕ, List, [], ◌∷◌, ◌++◌, append_assoc}
use Rattle.std.specs.Prelude.{codes}
use Rattle.mw_model.specs.Reports.Report.{spaced}

pub summary-joined : (old events accepted refused level : List ℕ) →
    ((((((((old ++ codes "events ") ++ events) ++ codes " accepted ") ++ accepted) ++ codes " refused ") ++ refused) ++ codes " level ") ++ level) ++ 10 ∷ []
    ≡ old ++ (spaced (codes "events") (spaced events (spaced (codes "accepted") (spaced accepted (spaced (codes "refused") (spaced refused (spaced (codes "level") level)))))) ++ 10 ∷ [])
summary-joined old events accepted refused level = simp append_assoc

pub answers-joined : (old events passed denied left : List ℕ) →
    ((((((((old ++ codes "events ") ++ events) ++ codes " yes ") ++ passed) ++ codes " no ") ++ denied) ++ codes " left ") ++ left) ++ 10 ∷ []
    ≡ old ++ (spaced (codes "events") (spaced events (spaced (codes "yes") (spaced passed (spaced (codes "no") (spaced denied (spaced (codes "left") left)))))) ++ 10 ∷ [])
answers-joined old events passed denied left = simp append_assoc
