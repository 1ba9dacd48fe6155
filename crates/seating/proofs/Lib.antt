-- Laws of who sits at a desk.
pub mod Laws
