-- The marks and their watch as a block gives new names.
use Rattle.std.specs.Prelude.{◌≡◌, ℕ, true, List, [], ◌∷◌, ◌⊎◌}
use Rattle.mw_model.specs.Terms.Object.{Object}
use Rattle.mw_model.specs.Terms.Term.{ArityTable}
use Rattle.mw_model.specs.Values.Definition.{Block, add_block, is_block}
use Rattle.mw_term.specs.Marking.{ObjectMark, AreMarks}
use Rattle.mw_term.specs.Watching.{IsOneOf}
use Rattle.mw_term.specs.Settling.{Waits, IsNotedWith, IsWatch}
use Rattle.mw_term.specs.declared.watch.Watch.{Watch}
use Rattle.mw_preamble.specs.declared.definition.Definition.{Definition}
use Rattle.mw_preamble.specs.Defining.{spelling_of}
use Rattle.mw_preamble.specs.Entries.{IsBlock}

-- The marks and the watch are right under A, and the table has come to have the block, which is well made after A.
pub record IsNamed (A : ArityTable) (B : Block) (arity : ArityTable) (os : List Object) (ds : List Definition) (ms : List ObjectMark) (w : Watch) : Type 0 where
  pub means : IsBlock os ds B
  pub made : is_block A B ≡ true
  pub arities : arity ≡ add_block B A
  pub marked : AreMarks A os ms
  pub watched : IsWatch A os w

-- the names of definitions, by their references
abbrev pub names_of_block : List Definition → List ℕ
names_of_block [] = []
names_of_block (d ∷ ds) = (spelling_of d).0 ∷ names_of_block ds

-- all that was noted with their names waits
pub record WakesNames (old new : Watch) (ds : List Definition) : Type 0 where
  pub same : new.lasting ≡ old.lasting
  pub woken : (r x : ℕ) → IsOneOf (names_of_block ds) r → IsNotedWith old r x → Waits new x
  pub wait : (x : ℕ) → Waits old x → Waits new x
  pub kept : (w x : ℕ) → IsNotedWith old w x → IsNotedWith new w x ⊎ Waits new x
