pub mod ByMembers
