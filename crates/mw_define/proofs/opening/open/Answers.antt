-- A term or terms by their parts, and a call as it is.
use Rattle.std.proofs.Common.{subst}
use Rattle.mw_term.specs.Parts.{names_at}
use Rattle.mw_define.specs.Collecting.{IsPartOf}
use Rattle.mw_define.proofs.opening.open.Goals as goal

pub open_term-requires-clause-within : goal.open_term-requires-clause-within
open_term-requires-clause-within c = (subst (IsPartOf c.args.heap.now.objects (names_at c.args.heap.now.objects c.args.names.now.keys)) c.in-Term.is c.requires.part).0

pub open_term-requires-clause-read : goal.open_term-requires-clause-read
open_term-requires-clause-read c = let read = subst (IsPartOf c.args.heap.now.objects (names_at c.args.heap.now.objects c.args.names.now.keys)) c.in-Term.is c.requires.part in (read.1, read.2)

pub open_terms-requires-clause-within : goal.open_terms-requires-clause-within
open_terms-requires-clause-within c = (subst (IsPartOf c.args.heap.now.objects (names_at c.args.heap.now.objects c.args.names.now.keys)) c.in-Terms.is c.requires.part).0

pub open_terms-requires-clause-read : goal.open_terms-requires-clause-read
open_terms-requires-clause-read c = let read = subst (IsPartOf c.args.heap.now.objects (names_at c.args.heap.now.objects c.args.names.now.keys)) c.in-Terms.is c.requires.part in (read.1, read.2)
