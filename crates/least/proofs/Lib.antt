pub mod Next
pub mod Table
pub mod Lower
