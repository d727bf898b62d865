pub mod ConfigTests
