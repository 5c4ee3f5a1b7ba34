pub mod OneFlow
pub mod View
pub mod Laws
