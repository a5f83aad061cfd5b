-- how long numbers are in their groups, and what the checks tell; the loops' turns and ways out, and the groups in
-- lent bytes
pub mod Laws
pub mod Turns
