-- What a sweep counts, shows and compares.
pub mod Alike
pub mod Bars
pub mod Counts
pub mod Cuts
pub mod Fillings
pub mod Kinds
pub mod Plans
pub mod Programs
pub mod Strides
pub mod Swept
pub mod Tallies
