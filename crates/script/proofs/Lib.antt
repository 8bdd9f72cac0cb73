mod Scans
mod Letters
mod Pieces
mod Values
mod Spoken
mod Asks
