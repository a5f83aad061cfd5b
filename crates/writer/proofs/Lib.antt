-- the loops over groups; table and groups; header and file
pub mod Groups
pub mod Filling
pub mod Heading
-- what the checks tell, and what encoding answers at each way out
pub mod Input
pub mod Ways
