pub mod FixedWires
