-- A block that is added to what is kept of a theory, as the heap grows.
use Rattle.std.proofs.Common.{◌≡◌, ℕ, List, [], map, sym, ap, ◌∙◌, subst}
use Rattle.std.proofs.lemmas.List.{append-nil}
use Rattle.mw_model.specs.Terms.Object.{Object}
use Rattle.mw_model.specs.Terms.Term.{ArityTable}
use Rattle.mw_model.specs.Values.Definition.{Block, Definitions, arity_table, add_block, are_new}
use Rattle.mw_heap.specs.Objects.{Grows}
use Rattle.mw_translate.specs.Expands.{ArePairsOfSymbols, with_pairs}
use Rattle.mw_code.specs.declared.table.Table.{Table}
use Rattle.mw_code.specs.Coded.{members}
use Rattle.mw_code.proofs.BlockNames.{new-members, block-arities}
use Rattle.mw_code.proofs.CallerLemmas.{stands-grows}
use Rattle.mw_preamble.specs.declared.definition.Definition.{Definition}
use Rattle.mw_preamble.proofs.CallerLemmas.{block-grows}
use Rattle.mw_theory.specs.Adding.{pair_of, AreNew, with_block, MayBeAdded, BeginsWith}
use Rattle.mw_theory.proofs.BlockPairs.{ArePairs, block_pairs, pairs_symbols, pairs_added, pairs_new, pairs_grow}

pub begins_same : {X : Type 0} (new old : List X) → new ≡ old → BeginsWith new old
begins_same new old e = ([], e ∙ sym (append-nil old))

pub may_be_added_grows : (old new : List Object) → Grows old new → (t : Table) (D : Definitions) (ds : List Definition) (B : Block) → MayBeAdded old t D ds B → MayBeAdded new t D ds B
may_be_added_grows old new g t D ds B h = record {
  stands = stands-grows old new g t.signature t.profile t.functions.items t.code.items t.kept D h.stands;
  means = block-grows old new g ds B h.means;
  made = h.made;
}

-- the pairs of a block that may be added, in the heap and as it grows
module _ (old new : List Object) (g : Grows old new) (t : Table) (D : Definitions) (ds : List Definition) (B : Block) (h : MayBeAdded old t D ds B) (ps : List (ℕ × ℕ)) (ps_are : ps ≡ map (pair_of old) ds) where
  pairs : ArePairs old ps (members B)
  pairs = subst (λ qs. ArePairs old qs (members B)) (sym ps_are) (block_pairs old (arity_table D) ds B h.means h.made)

  pairs-later : ArePairs new ps (members B)
  pairs-later = pairs_grow old new g ps (members B) pairs

  pub symbols : ArePairsOfSymbols old ps
  symbols = pairs_symbols old ps (members B) pairs

  pub symbols_later : ArePairsOfSymbols new ps
  symbols_later = pairs_symbols new ps (members B) pairs-later

  pub new_later : (A : ArityTable) → A ≡ arity_table D → AreNew new A ps
  new_later A e = pairs_new new ps (members B) A pairs-later (ap (λ Z. are_new Z (members B)) e ∙ new-members (arity_table D) B h.made)

  pub arities : (A : ArityTable) → A ≡ arity_table D → with_pairs old ps A ≡ arity_table (with_block B D)
  arities A e = pairs_added old ps (members B) A pairs ∙ (sym (block-arities A B) ∙ ap (add_block B) e)

  pub arities_later : (A : ArityTable) → A ≡ arity_table D → with_pairs new ps A ≡ arity_table (with_block B D)
  arities_later A e = pairs_added new ps (members B) A pairs-later ∙ (sym (block-arities A B) ∙ ap (add_block B) e)
