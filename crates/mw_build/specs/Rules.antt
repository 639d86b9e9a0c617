-- What the rules of a table make: each is a template, which may use others.
use Rattle.std.specs.Prelude.{ℕ, zero, suc, List, [], get_or}
use Rattle.mw_model.specs.Terms.Object.{NIL}
use Rattle.mw_build.specs.declared.piece.Piece.{Piece}
use Rattle.mw_build.specs.Pieces.{Made, run}
use Rattle.mw_build.specs.Stacks.{newest}

-- NIL where there is no such rule, and where rules use others too deep
abbrev pub made_by : List (List Piece) → ℕ → Made
made_by rules zero n given = NIL
made_by rules (suc depth) n given = newest (run (made_by rules depth) given [] (get_or rules n []))

-- as deep as any table needs
abbrev pub made_of : List (List Piece) → Made
made_of rules n given = made_by rules 16 n given
