-- The proofs of the laws of pairs. An `impl` names them; no contract cites them.
pub mod Squares
pub mod PairLaws
pub mod PairRoots
