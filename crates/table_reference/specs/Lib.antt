pub mod Either
pub mod View
pub mod Examples
pub mod EitherLaws
