-- half of a sample; the report of the main job
pub mod Halving
pub mod Reports
