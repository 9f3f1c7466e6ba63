pub mod EastAsian
