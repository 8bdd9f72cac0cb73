mod Texts
mod Telling
