mod Pieces
mod Names
mod Put
mod Hits
mod Logged
mod Telling
mod Laid
