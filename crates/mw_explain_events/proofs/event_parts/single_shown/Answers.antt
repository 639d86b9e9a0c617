-- Nothing is asked of the names and the formals where no definition is recursive.
use Rattle.mw_explain_events.proofs.event_parts.single_shown.Goals as goal

pub definition_shown-requires-clause-named : goal.definition_shown-requires-clause-named
definition_shown-requires-clause-named c = λ e. cc

pub definition_shown-requires-clause-formals : goal.definition_shown-requires-clause-formals
definition_shown-requires-clause-formals c = λ e. cc

pub definition_shown-requires-clause-nested : goal.definition_shown-requires-clause-nested
definition_shown-requires-clause-nested c = λ e. absurd (c.requires.other e)
