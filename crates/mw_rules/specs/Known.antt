-- Known objects: the list of their references beside the set of these.
use Rattle.std.specs.Prelude.{◌≡◌, ℕ, zero, suc, ◌==◌, ◌≤◌, List, length, map, reverse, take, get_or}
use Rattle.std.specs.List.{list_any}
use Rattle.mw_rules.specs.declared.known.Entry.{Entry}

-- the newest first
abbrev pub references : List Entry → List ℕ
references entries = reverse (map (λ e. e.reference) entries)

-- the first keys are just those that the first entries have
abbrev pub AreSame : List Entry → List ℕ → Type 0
AreSame entries keys = (x : ℕ) → list_any (λ y. x == y) (map (λ e. e.reference) entries) ≡ list_any (λ y. x == y) keys

-- how many distinct ones the n oldest are
abbrev pub no_entry : Entry
no_entry = record { reference = 0; distinct = 0 }

abbrev pub distinct_among : List Entry → ℕ → ℕ
distinct_among entries zero = 0
distinct_among entries (suc n) = (get_or entries n no_entry).distinct

-- each entry counts the distinct ones up to it, which are the first keys
pub record AreCounted (entries : List Entry) (keys : List ℕ) : Type 0 where
  pub whole : distinct_among entries (length entries) ≡ length keys
  pub rising : (m n : ℕ) → m ≤ n → n ≤ length entries → distinct_among entries m ≤ distinct_among entries n
  pub same : (n : ℕ) → n ≤ length entries → AreSame (take n entries) (take (distinct_among entries n) keys)
