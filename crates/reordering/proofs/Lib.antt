pub mod Reordering
