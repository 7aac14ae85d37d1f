pub mod PointRanges
