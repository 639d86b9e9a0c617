-- Names that are put behind others, each once, but for those that are left out.
use Rattle.std.specs.Prelude.{Bool, ◌||◌, cond, List, [], ◌∷◌, ◌++◌}
use Rattle.mw_model.specs.Terms.Object.{Name}
use Rattle.mw_model.specs.Terms.Term.{is_among}

-- y is left out, or is there
abbrev pub is_settled : List Name → List Name → Name → Bool
is_settled out there y = is_among y out || is_among y there

abbrev pub put_name : List Name → List Name → Name → List Name
put_name out there y = cond (is_settled out there y) there (there ++ y ∷ [])

abbrev pub put_others : List Name → List Name → List Name → List Name
put_others out there [] = there
put_others out there (y ∷ ys) = put_others out (put_name out there y) ys
