-- What the program is asked for, the report on a book, and what is promised.
pub mod Report
pub mod Trial
pub mod Keeping
pub mod Headline
pub mod Request
