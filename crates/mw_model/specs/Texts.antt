-- The text of books, and the text of objects.
pub mod Lexemes
pub mod Grammar
pub mod Printing
pub mod Written
pub mod Pieces
