pub mod NumberTable
