mod Starting
mod Parts
mod Told
mod Kept
