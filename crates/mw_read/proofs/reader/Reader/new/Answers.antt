-- Nothing was read, and anything may follow.
use Rattle.std.proofs.Common.{[], sym, subst, inl}
use Rattle.mw_read.specs.Standing.{Follows}
use Rattle.mw_read.proofs.reader.Reader.new.Goals as goal

pub returns-clause-ready : goal.returns-clause-ready
returns-clause-ready c os = inl (([], [], c.new.ensures.stands os), inl (subst (Follows c.new.result) (sym c.new-2.ensures) (c.new.ensures.free [])))
