-- What comes next in the bytes that a reader was fed and has not read.
use Rattle.std.specs.Prelude.{◌≡◌, ◌<◌, ◌⊎◌, true, false, List, ℕ, [], ◌∷◌, ◌++◌, Some, None}
use Rattle.mw_model.specs.Terms.Object.{Object}
use Rattle.mw_model.specs.Texts.Lexemes.{fault, Goes}
use Rattle.mw_model.specs.Texts.Grammar.{book, reading, trees}
use Rattle.mw_read.specs.Kinds.{kind_of}
use Rattle.mw_read.specs.Standing.{Stands, IsStanding, IsFree, Follows, HasEnded, Gives, work}
use Rattle.mw_read.specs.declared.reader.Reader.{Reader}
use Rattle.mw_read.specs.declared.step.Step.{Step}
use Rattle.mw_read.specs.declared.step.Step.TheVariants as steps

-- All bytes fed were read, and more may come.
abbrev pub IsAwaiting : Reader → Type 0
IsAwaiting r = (r.unread ≡ []) × (r.finished ≡ false)

-- What is unread may follow what was read, as nothing may where no more bytes come.
abbrev pub UnreadFollows : Reader → Type 0
UnreadFollows r = Follows r.parser r.unread ⊎ ((r.unread ≡ []) × (r.finished ≡ true))

-- The reader stands, and what is unread may follow; or it has ended.
abbrev pub IsReady : List Object → Reader → Type 0
IsReady os r = (IsStanding os r.parser × UnreadFollows r) ⊎ HasEnded r.parser

-- These bytes may yet come after those fed.
abbrev pub MayCome : Reader → List ℕ → Type 0
MayCome r rest = r.finished ≡ true → rest ≡ []

-- Datum y was given of the first unread bytes. What stands then stands in any heap.
pub record GivesNext (old : Reader) (g : List ℕ) (given : List Object) (y : Object) (new : Reader) : Type 0 where
  pub taken : List ℕ
  pub unread : old.unread ≡ taken ++ new.unread
  pub finished : new.finished ≡ old.finished
  pub stands : (os : List Object) → Stands os new.parser (g ++ taken) (given ++ y ∷ [])
  pub follows : UnreadFollows new
  pub less : work new.parser new.unread < work old.parser old.unread

-- what comes next, after bytes g, of which these data were given
abbrev pub Continues : List Object → Reader → List ℕ → List Object → Step → Reader → Type 0
Continues os old g given (steps.Datum r) new = (y : Object) × Gives os y (steps.Datum r) × GivesNext old g given y new
Continues os old g given (steps.TooBig w l) new = (y : Object) × Gives os y (steps.TooBig w l) × GivesNext old g given y new
Continues os old g given steps.More new = (old.finished ≡ false) × IsAwaiting new × Stands os new.parser (g ++ old.unread) given × IsFree new.parser × (reading Goes (g ++ old.unread) ≡ book given None)
Continues os old g given steps.End new = (old.finished ≡ true) × (new.unread ≡ []) × (new.finished ≡ true) × Stands os new.parser (g ++ old.unread) given × (trees (g ++ old.unread) ≡ book given None)
Continues os old g given (steps.Syntax k o) new = (rest : List ℕ) → MayCome old rest → trees (g ++ (old.unread ++ rest)) ≡ book given (Some (fault (kind_of k) o))
Continues os old g given steps.Memory new = Unit {0}
