pub mod Readable
