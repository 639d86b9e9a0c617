-- A code of what a kernel holds, as a value that clauses see must have one.
use Rattle.std.specs.Prelude.{ℕ, List, refl}
use Rattle.std.specs.Coded.{Coded, code_by, coded_list, coded×, coded_ℕ}
use Rattle.mw_model.specs.Terms.Object.{Object}
use Rattle.mw_heap.specs.Code.{coded_object}
use Rattle.mw_theory.specs.Code.{coded_parts}
use Rattle.mw_theory.specs.Knowledge.{Parts}
use Rattle.mw_kernel.specs.Knowledge.{Knowledge}

abbrev pub coded_knowledge : Coded Knowledge
coded_knowledge =
    code_by (List Object × (ℕ × (Parts × ℕ))) (coded× (coded_list coded_object) (coded× coded_ℕ (coded× coded_parts coded_ℕ))) (λ k. (k.objects, (k.needed, (k.parts, k.steps)))) (λ p. record { objects = p.0; needed = p.1.0; parts = p.1.1.0; steps = p.1.1.1 }) (λ _. refl)
