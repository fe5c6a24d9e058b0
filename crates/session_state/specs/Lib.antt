pub mod Dos
