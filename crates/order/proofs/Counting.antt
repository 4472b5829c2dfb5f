-- Counts of marks, as `net` names them.
pub use Rattle.marks.proofs.Counting.{count_agree, count_none, count_without, count_all}
