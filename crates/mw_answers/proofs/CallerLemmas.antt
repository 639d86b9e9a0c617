-- What a caller cites: of answers that are written one after another, of courses and logs that go on, and of what a sink took.
pub use Rattle.mw_answers.proofs.Courses.{course-append, course_leads, course_more, event_after, last-append, length-course}
pub use Rattle.mw_answers.proofs.Headlines.{same_some}
pub use Rattle.mw_answers.proofs.Written.{gives_has, gives_none, left_of, nothing_taken, some_then, takes_none, takes_some}
pub use Rattle.mw_answers.proofs.Logs.{all_answered, event_more, few_entered, last_entered, log_lines-append, step_more, theory_after-last, with_last_event, with_last_step}
pub use Rattle.mw_answers.proofs.Pieces.{how_many-append, in_order_both}
pub use Rattle.mw_answers.proofs.Rounds.{Begins, ends_none, first_none, part_none}
pub use Rattle.mw_answers.proofs.Promising.{answers_both}
pub use Rattle.mw_answers.proofs.FlatPieces.{few_flat, flat_more, flat_one, some_more}
