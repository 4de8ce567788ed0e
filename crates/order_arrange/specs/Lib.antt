pub mod Arrange
