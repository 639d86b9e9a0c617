-- A code of what going through a log holds, as a value that clauses see must have one.
use Rattle.std.specs.Prelude.{ℕ, Bool, List, refl}
use Rattle.std.specs.Coded.{Coded, code_by, coded_list, coded×, coded_ℕ, coded_bool}
use Rattle.mw_model.specs.Terms.Object.{Object}
use Rattle.mw_heap.specs.Code.{coded_object}
use Rattle.mw_theory.specs.Knowledge.{Parts}
use Rattle.mw_theory.specs.Code.{coded_parts}
use Rattle.mw_flat.specs.Going.{Going}

abbrev pub coded_going : Coded Going
coded_going =
    code_by (List Object × (ℕ × (Parts × (List ℕ × (Bool × ℕ))))) (coded× (coded_list coded_object) (coded× coded_ℕ (coded× coded_parts (coded× (coded_list coded_ℕ) (coded× coded_bool coded_ℕ)))))
    (λ g. (g.objects, (g.needed, (g.parts, (g.conclusions, (g.good, g.count)))))) (λ p. record { objects = p.0; needed = p.1.0; parts = p.1.1.0; conclusions = p.1.1.1.0; good = p.1.1.1.1.0; count = p.1.1.1.1.1 }) (λ _. refl)
