pub mod Free
pub mod Seen
pub mod OnTracks
pub mod Answers
pub mod Sheets
pub mod Laws
pub mod Returned
