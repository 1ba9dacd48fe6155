-- What every kind of module does alike, in the order of the paper.
pub mod Standard
pub mod Extended
pub mod Table
