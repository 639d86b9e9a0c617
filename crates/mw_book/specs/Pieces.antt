-- What is written of an event with a fate, of which the line was begun.
use Rattle.std.specs.Prelude.{ℕ, cond, List, [], ◌∷◌, ◌++◌}
use Rattle.mw_model.specs.Events.Refusal.{Fate}
use Rattle.mw_model.specs.Reports.Report.{fate_text, is_accepted}

-- nothing, or the line with the fate and that of the datum
abbrev pub explained_piece : Fate → (begun datum : List ℕ) → List ℕ
explained_piece f begun datum = cond (is_accepted f) [] ((begun ++ (fate_text f ++ 10 ∷ [])) ++ datum)

-- the datum, or the line with the fate
abbrev pub lowered_piece : Fate → (datum begun : List ℕ) → List ℕ
lowered_piece f datum begun = cond (is_accepted f) datum (begun ++ (fate_text f ++ 10 ∷ []))
