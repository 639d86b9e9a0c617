-- A watch of marks, and what is right of it as names come.
use Rattle.std.specs.Prelude.{◌≡◌, ℕ, List, [], ◌⊎◌, length}
use Rattle.mw_model.specs.Terms.Object.{Object}
use Rattle.mw_model.specs.Terms.Term.{ArityTable}
use Rattle.mw_term.specs.Marking.{ObjectMark}
use Rattle.mw_term.specs.Watching.{right_mark, IsOneOf, IsNoted, AreExplained, AreLasting}
use Rattle.mw_term.specs.declared.watch.Watch.{Watch}

-- x waits to be marked anew
abbrev pub Waits : Watch → ℕ → Type 0
Waits w x = IsOneOf w.waiting.keys x

-- x is noted with a part
abbrev pub IsNotedWith : Watch → ℕ → ℕ → Type 0
IsNotedWith w part x = IsNoted w.notes.by_part.entries part x

-- Of the first objects, which have these marks, each denied test has its reason under the table B, but of those that wait.
pub record IsSettling (B : ArityTable) (os : List Object) (mark : ℕ → ObjectMark) (w : Watch) (waits : ℕ → Type 0) : Type 0 where
  pub explained : AreExplained B os (length w.lasting.items) mark (IsNotedWith w) waits
  pub lasting : AreLasting B os mark w.lasting.items

-- the marks are right under the table A, and those wait that may be others under B
abbrev pub IsAwake : ArityTable → ArityTable → List Object → Watch → Type 0
IsAwake A B os w = IsSettling B os (right_mark A os) w (Waits w)

-- the marks are right under the table, and none waits
pub record IsWatch (A : ArityTable) (os : List Object) (w : Watch) : Type 0 where
  pub settled : IsAwake A A os w
  pub none : w.waiting.keys ≡ []

-- what was noted with a part waits, and what is noted no more
pub record WakesNoted (old new : Watch) (part : ℕ) : Type 0 where
  pub same : new.lasting ≡ old.lasting
  pub woken : (x : ℕ) → IsNotedWith old part x → Waits new x
  pub wait : (x : ℕ) → Waits old x → Waits new x
  pub kept : (w x : ℕ) → IsNotedWith old w x → IsNotedWith new w x ⊎ Waits new x

-- the same where the mark of the part has changed, and else nothing
pub record WakesIfChanged (old new : Watch) (part : ℕ) (before after : ObjectMark) : Type 0 where
  pub same : new.lasting ≡ old.lasting
  pub woken : (after ≡ before) ⊎ ((x : ℕ) → IsNotedWith old part x → Waits new x)
  pub wait : (x : ℕ) → Waits old x → Waits new x
  pub kept : (w x : ℕ) → IsNotedWith old w x → IsNotedWith new w x ⊎ Waits new x
