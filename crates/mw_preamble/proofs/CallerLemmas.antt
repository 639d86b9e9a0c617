-- What a caller cites of entries: what they mean as the heap grows and after a cut, and how many there are.
use Rattle.std.proofs.Common.{◌≡◌, ◌≤◌, List, [], ◌∷◌, ◌++◌, length, take, sym, ap, subst, ◌∙◌, arith, length-append}
use Rattle.std.proofs.lemmas.List.{take_all, take-append-le}
use Rattle.mw_model.specs.Terms.Object.{Object}
use Rattle.mw_model.specs.Values.Definition.{Function as Defined, Block, Functions, Choice}
use Rattle.mw_heap.specs.Objects.{Grows}
use Rattle.mw_heap.proofs.Objects.{IsIn-Grows, object_at-Grows}
use Rattle.mw_preamble.specs.declared.definition.Definition.{Definition}
use Rattle.mw_preamble.specs.declared.definition.Definition.TheVariants.{Function, Witness}
use Rattle.mw_preamble.specs.Entries.{AreFunctions, IsBlock, AreEntries}

module _ (old new : List Object) (grows : Grows old new) where
  functions-grow : (ds : List Definition) (B : List Defined) → AreFunctions old ds B → AreFunctions new ds B
  functions-grow [] [] h = tt
  functions-grow (Function name formals body ∷ ds) (k ∷ B) h =
      let f = h.0 in (
        record {
          name_in = IsIn-Grows old new grows name f.name_in;
          formals_in = IsIn-Grows old new grows formals f.formals_in;
          body_in = IsIn-Grows old new grows body f.body_in;
          name_is = object_at-Grows old new grows name f.name_in ∙ f.name_is;
          formals_are = object_at-Grows old new grows formals f.formals_in ∙ f.formals_are;
          body_is = object_at-Grows old new grows body f.body_in ∙ f.body_is;
        },
        functions-grow ds B h.1,
      )
  functions-grow [] (k ∷ B) h = absurd h
  functions-grow (Function name formals body ∷ ds) [] h = absurd h
  functions-grow (Witness name bound free body ∷ ds) [] h = absurd h
  functions-grow (Witness name bound free body ∷ ds) (k ∷ B) h = absurd h

  pub block-grows : (ds : List Definition) (B : Block) → IsBlock old ds B → IsBlock new ds B
  block-grows ds (Functions B) h = functions-grow ds B h
  block-grows (Witness name bound free body ∷ []) (Choice g y xs b) h = record {
    name_in = IsIn-Grows old new grows name h.name_in;
    bound_in = IsIn-Grows old new grows bound h.bound_in;
    free_in = IsIn-Grows old new grows free h.free_in;
    body_in = IsIn-Grows old new grows body h.body_in;
    name_is = object_at-Grows old new grows name h.name_in ∙ h.name_is;
    bound_is = object_at-Grows old new grows bound h.bound_in ∙ h.bound_is;
    free_are = object_at-Grows old new grows free h.free_in ∙ h.free_are;
    body_is = object_at-Grows old new grows body h.body_in ∙ h.body_is;
  }
  block-grows [] (Choice g y xs b) h = absurd h
  block-grows (Function name formals body ∷ ds) (Choice g y xs b) h = absurd h
  block-grows (Witness name bound free body ∷ d ∷ ds) (Choice g y xs b) h = absurd h

  -- the entries mean what they did
  pub AreEntries-grows : (es : List (List Definition)) (D : List Block) → AreEntries old es D → AreEntries new es D
  AreEntries-grows es [] h = h
  AreEntries-grows es (B ∷ D) h = (h.0, h.1, h.2, block-grows h.1 B h.3, AreEntries-grows h.0 D h.4)

-- there is one list for each block
pub AreEntries-length : (os : List Object) (es : List (List Definition)) (D : List Block) → AreEntries os es D → length es ≡ length D
AreEntries-length os es [] h = ap length h
AreEntries-length os es (B ∷ D) h = omega (arith, ap length h.2, length-append h.0 (h.1 ∷ []), AreEntries-length os h.0 D h.4)

-- the oldest lists mean the older blocks
pub AreEntries-cut : (os : List Object) (es : List (List Definition)) (newer older : List Block) → AreEntries os es (newer ++ older) → AreEntries os (take (length older) es) older
AreEntries-cut os es [] older h =
    let all = take_all (length older) es (omega (arith, AreEntries-length os es older h)) in
    subst (λ l. AreEntries os l older) (sym all) h
AreEntries-cut os es (B ∷ newer) older h =
    let n = length older in
    let few : n ≤ length h.0 = omega (arith, AreEntries-length os h.0 (newer ++ older) h.4, length-append newer older) in
    let same = ap (take n) h.2 ∙ take-append-le n h.0 (h.1 ∷ []) few in
    subst (λ l. AreEntries os l older) (sym same) (AreEntries-cut os h.0 newer older h.4)
