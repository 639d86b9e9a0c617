-- What clauses see of a heap: its objects, and how many more it has room for.
use Rattle.std.specs.Prelude.{ℕ, min, List, refl}
use Rattle.std.specs.Coded.{Coded, code_by, coded_list, coded×, coded_ℕ}
use Rattle.mw_model.specs.Terms.Object.{Object}
use Rattle.mw_heap.specs.Code.{coded_object}

-- So many cells can still be made without memory that is asked for, but for the bytes of names.
pub record Contents : Type 0 where
  pub objects : List Object
  pub spare : ℕ

abbrev pub coded_contents : Coded Contents
coded_contents = code_by (List Object × ℕ) (coded× (coded_list coded_object) coded_ℕ) (λ h. (h.objects, h.spare)) (λ p. record { objects = p.0; spare = p.1 }) (λ h. refl)

-- the least of the rooms for cells, for large naturals, for names and for lengths, and of the cells that can still be numbered
abbrev pub room : ℕ → ℕ → ℕ → ℕ → ℕ → ℕ
room cells naturals names lengths numbers = min (min cells (min naturals names)) (min lengths numbers)
