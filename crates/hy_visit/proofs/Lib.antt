pub mod Stamps
pub mod Pruned
pub mod Stamped
pub mod Noted
pub mod Shortened
pub mod KeptCandidates
pub mod Written
pub mod Placed
pub mod Counted
pub mod Behind
pub mod JoinedColumns
pub mod KeySources
pub mod Alike
mod OnePart
mod Plans
pub mod Wide
pub mod NotedBefore
pub mod Backs
pub mod ChunkNotes
pub mod Spared
