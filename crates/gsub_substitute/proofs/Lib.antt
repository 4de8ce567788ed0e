mod Scans
mod Settling
