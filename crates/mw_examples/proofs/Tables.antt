-- Tables of examples, of which all rows are computed at once.
use Rattle.std.proofs.Common.{◌≡◌, ℕ, List, [], ◌∷◌, map, ap}
use Rattle.std.specs.List.{All}
use Rattle.std.proofs.lemmas.List.Elements.{All-nil, All-cons}
use Prim.Native.String.{String}
use Rattle.mw_model.specs.Reports.Report.{Status}

-- what an example shows, the bytes of its book, the step limit of each run, what is written, and the status
pub record Worked : Type 0 where
  pub shows : String
  pub book : List ℕ
  pub limit : ℕ
  pub text : List String
  pub status : Status

-- where the step limit does not matter, and within a limit
abbrev pub worked : String → List ℕ → List String → Status → Worked
worked shows book text status = record { shows = shows; book = book; limit = 10000000; text = text; status = status }

abbrev pub worked_within : ℕ → String → List ℕ → List String → Status → Worked
worked_within N shows book text status = record { shows = shows; book = book; limit = N; text = text; status = status }

abbrev first : {A : Type 0} → A → List A → A
first d [] = d
first d (x ∷ xs) = x

abbrev rest : {A : Type 0} → List A → List A
rest [] = []
rest (x ∷ xs) = xs

-- what follows for a row from two values that are equal there holds of each row
pub each : {A B : Type 0} (f g : A → B) (P : A → Type 0) → ((x : A) → f x ≡ g x → P x) → (table : List A) → map f table ≡ map g table → All P table
each f g P h [] e = All-nil P
each f g P h (x ∷ table) e = All-cons P x table (h x (ap (first (f x)) e)) (each f g P h table (ap rest e))
