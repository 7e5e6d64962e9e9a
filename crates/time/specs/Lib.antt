pub mod Hours
pub mod Laws
