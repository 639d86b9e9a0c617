use Rattle.std.proofs.Common.{◌≡◌, true, take}
use Rattle.mw_model.specs.Terms.Object.{is_name_byte}
use Rattle.std.specs.List.{list_all}
use Rattle.mw_lex.proofs.class.name_bytes.Given as goal

abbrev pub invariant-loop-i : goal.invariant-loop-i
invariant-loop-i l = list_all is_name_byte (take l.i l.bytes) ≡ true
