mod Words
mod Guards
mod Keeps
